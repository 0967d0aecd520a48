pub mod Numbers
pub mod Accepting
pub mod Adding
pub mod Pass
pub mod Laws
