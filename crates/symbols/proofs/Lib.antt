-- Laws of tokens that several proofs cite, here and in the crates above.
pub mod Lexed
pub mod Names
