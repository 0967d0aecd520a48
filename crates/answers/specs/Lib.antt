pub mod Answers
pub mod Codes
pub mod Laws
pub mod Operations
pub mod Outcomes
pub mod Refusals
pub mod Tied
