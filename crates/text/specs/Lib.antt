pub mod Limits
pub mod Text
pub mod ListText
pub mod Marks
pub mod Writing
pub mod Laws
