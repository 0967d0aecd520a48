pub mod ServingLaws
pub mod StandingLaws
