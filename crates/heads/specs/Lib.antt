pub mod FirstTold
pub mod Laws
