-- Laws of a text's program: what is refused, and what compiling leaves.
pub mod Tables
pub mod Entries
pub mod Turns
pub mod Digits
pub mod Readback
pub mod Lengths
pub mod Runs
pub mod Promises
pub mod Vectors
