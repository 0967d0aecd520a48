pub mod Numerals
pub mod Nexts
