pub mod Recelling
pub mod TurningLaws
pub mod CopyingLaws
pub mod Beside
pub mod Ending
pub mod JoiningLaws
