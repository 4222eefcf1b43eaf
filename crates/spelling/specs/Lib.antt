pub mod Names
pub mod Spaces
pub mod Records
pub mod ReadsBack
