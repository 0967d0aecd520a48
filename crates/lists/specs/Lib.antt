pub mod Lst
pub mod Laws
