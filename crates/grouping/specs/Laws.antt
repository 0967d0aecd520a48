pub mod ItemLaws
pub mod StepLaws
pub mod TurnLaws
pub mod WalkingLaws
pub mod MeasureLaws
pub mod PuttingLaws
