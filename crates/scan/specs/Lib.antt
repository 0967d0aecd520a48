pub mod Runs
pub mod Places
pub mod Outcomes
pub mod Laws
pub mod Tied
