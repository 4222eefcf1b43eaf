-- The worked lines that are marked to be proved, and the laws that they need.
pub mod Vectors
pub mod Tints
pub mod Labs
pub mod Grays
pub mod Paper
pub mod Closeness
