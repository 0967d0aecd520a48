pub mod BuildLaws
pub mod MarksLeft
pub mod ReadingLaws
pub mod HookLaws
pub mod UnderwayLaws
pub mod StepLaws
