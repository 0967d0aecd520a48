pub mod Decided
pub mod Mirror
pub mod Refusals
pub mod Laws
