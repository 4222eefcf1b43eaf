-- Laws of the stack and of programs that several proofs cite, here and in the crates above.
pub mod Same
pub mod Fits
pub mod Stacks
pub mod Runs
pub mod Heights
pub mod Strict
