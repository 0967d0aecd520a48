pub mod Lent
pub mod Views
pub mod Asked
pub mod Range
pub mod Laws
