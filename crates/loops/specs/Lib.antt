pub mod Loop
pub mod Laws
