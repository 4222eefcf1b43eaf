-- Laws of the checker: paths, its table, and that it judges a flat form as judging does the program.
pub mod Places
pub mod Judged
pub mod Turns
pub mod Tables
pub mod Passes
pub mod Packed
pub mod Forms
pub mod Filled
pub mod Parts
pub mod Vectors
