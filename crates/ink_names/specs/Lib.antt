pub mod Replies
pub mod Names
pub mod Search
pub mod Parts
pub mod Laws
