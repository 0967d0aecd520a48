pub mod StepLaws
pub mod LaterLaws
pub mod Counts
pub mod Ends
pub mod AdvanceLaws
