pub mod Erasing
pub mod Laws
