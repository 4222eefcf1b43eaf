-- Laws that several proofs cite, here and in the crates above.
pub mod Ranges
pub mod Values
