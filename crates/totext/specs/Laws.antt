pub mod SizingLaws
pub mod CheckingLaws
pub mod TurnLaws
pub mod PartLaws
pub mod PuttingLaws
pub mod RunLaws
pub mod MovedLaws
