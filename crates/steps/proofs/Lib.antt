-- Laws of steps that are read, which several proofs cite, here and in the crates above.
pub mod Ranges
pub mod Sound
pub mod Parsed
