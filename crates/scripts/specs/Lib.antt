pub mod Performs
pub mod Midway
pub mod Laws
pub mod Tied
