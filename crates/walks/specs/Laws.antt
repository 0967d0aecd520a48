pub mod DeepLaws
pub mod LevelLaws
