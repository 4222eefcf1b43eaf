pub mod Answers
pub mod Steps
pub mod Decodes
pub mod Closings
pub mod Bare
