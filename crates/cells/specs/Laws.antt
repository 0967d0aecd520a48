pub mod RangeLaws
pub mod LentLaws
pub mod StepLaws
