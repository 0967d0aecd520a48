pub mod Levels
pub mod Steps
pub mod Meets
pub mod Laws
