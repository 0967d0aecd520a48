pub mod NumberLaws
pub mod CommandLaws
pub mod PrintedLaws
pub mod SplittingLaws
pub mod GatherLaws
pub mod RecordLaws
