-- Laws of references and of runs that several proofs cite, here and in the crates above.
pub mod Within
pub mod Programs
