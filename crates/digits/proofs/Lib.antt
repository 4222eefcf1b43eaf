-- Laws that several proofs cite, here and in the crates above, and those of `digits` that say what it is.
pub mod Digits
pub mod Putting
