-- Laws that several proofs cite, here and in the crates above.
pub mod Progresses
pub mod Endings
pub mod Lending
pub mod TextReads
