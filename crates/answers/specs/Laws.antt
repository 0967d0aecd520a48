pub mod Refusals
pub mod Unless
