pub mod Bits
pub mod Blanks
