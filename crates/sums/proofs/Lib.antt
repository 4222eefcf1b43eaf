-- Laws that several proofs cite: the check by columns is that of the format.
pub mod TwoSums
