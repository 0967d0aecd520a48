pub mod WordLaws
pub mod TestLaws
pub mod GivesLaws
pub mod ReplyLaws
pub mod Freed
