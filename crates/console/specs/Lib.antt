pub mod Serving
pub mod Whole
pub mod Standing
pub mod Laws
