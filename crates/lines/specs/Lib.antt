pub mod Numbers
pub mod Commands
pub mod Printed
pub mod Splitting
pub mod Meaning
pub mod Tied
pub mod Laws
