pub mod AcceptingLaws
pub mod StackLaws
pub mod AddLaws
pub mod PassLaws
pub mod ReadLaws
