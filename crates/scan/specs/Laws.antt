pub mod Starts
pub mod Ends
