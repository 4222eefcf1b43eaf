-- Laws of step 12 that proofs cite.
pub mod Made
