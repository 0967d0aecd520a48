pub mod Session
pub mod Kept
pub mod Trim
pub mod Laws
