-- Laws that several proofs cite, here and in the crates above.
pub mod Findings
pub mod Texts
pub mod Samples
pub mod Passing
