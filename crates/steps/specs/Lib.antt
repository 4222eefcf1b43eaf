pub mod Steps
pub mod Ranges
