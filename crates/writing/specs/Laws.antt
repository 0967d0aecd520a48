pub mod StepLaws
pub mod PutLaws
pub mod TurnLaws
pub mod WalkingLaws
pub mod MeasureLaws
pub mod PuttingLaws
pub mod WroteLaws
