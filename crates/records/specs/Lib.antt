pub mod Differing
pub mod Tied
