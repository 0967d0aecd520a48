pub mod Sizing
pub mod Checking
pub mod Standing
pub mod Turns
pub mod Putting
pub mod Laws
