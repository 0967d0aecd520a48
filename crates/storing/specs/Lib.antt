pub mod Ahead
pub mod Readers
pub mod Laws
