pub mod Numbers
pub mod Numbered
pub mod Several
pub mod Putting
pub mod Laws
pub mod Tied
