pub mod Pasted
pub mod Laws
