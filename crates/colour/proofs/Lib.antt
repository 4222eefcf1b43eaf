-- Laws that the proofs cite: what the values reply level by level, and what the flag of an answer says.
pub mod Replies
pub mod Moves
