pub mod Replies
pub mod Inks
