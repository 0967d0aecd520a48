pub mod SameParts
pub mod OnePool
pub mod SameRun
pub mod SameRows
pub mod SameSetUp
pub mod SameText
