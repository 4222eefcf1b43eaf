-- Laws that several proofs cite.
pub mod Exp
pub mod One
pub mod Facts
pub mod Decodes
pub mod Closes
