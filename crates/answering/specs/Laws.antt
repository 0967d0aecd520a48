pub mod FreeLaws
pub mod TrimLaws
pub mod SessionLaws
pub mod ReadLaws
pub mod WriteLaws
