pub mod AheadLaws
pub mod PassLaws
pub mod ElementLaws
pub mod ListLaws
pub mod WholeLaws
