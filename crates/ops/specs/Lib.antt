pub mod Replies
pub mod Tests
pub mod Laws
