pub mod Paper
pub mod Closeness
