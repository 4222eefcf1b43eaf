pub mod Spaces
pub mod Tokens
pub mod Texts
pub mod Kept
