pub mod Items
pub mod Steps
pub mod Measures
pub mod Walking
pub mod Putting
pub mod Laws
