pub mod MidwayLaws
pub mod RunLaws
