pub mod Ends
pub mod Whole
