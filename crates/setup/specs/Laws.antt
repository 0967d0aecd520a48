pub mod Linked
pub mod SetUpLaws
