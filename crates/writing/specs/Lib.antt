pub mod Steps
pub mod Put
pub mod Measures
pub mod Walking
pub mod Putting
pub mod RecordEnd
pub mod Laws
