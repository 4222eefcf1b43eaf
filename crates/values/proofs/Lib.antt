-- Laws of the steps on values that several proofs cite, here and in the crates above.
pub mod Steps
