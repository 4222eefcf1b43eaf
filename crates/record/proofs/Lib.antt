-- Laws that several proofs cite, here and in the crates above.
pub mod Compared
pub mod Runs
pub mod Fours
pub mod Shapes
pub mod Same
