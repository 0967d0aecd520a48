pub mod Recelled
pub mod Turning
pub mod Copying
pub mod Joining
pub mod Laws
