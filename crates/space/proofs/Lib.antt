-- Laws of the space at a number that several proofs cite, here and in the crates above.
pub mod Levels
pub mod Ends
pub mod Asked
pub mod Counts
