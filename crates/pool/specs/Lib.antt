pub mod Tally
pub mod Pool
pub mod Setters
pub mod Erase
pub mod Operations
pub mod Script
pub mod Check
pub mod Laws
