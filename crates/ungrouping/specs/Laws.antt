pub mod PlaceLaws
pub mod EndLaws
