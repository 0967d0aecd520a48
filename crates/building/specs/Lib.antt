pub mod Build
pub mod Reading
pub mod Hooks
pub mod Underway
pub mod Laws
