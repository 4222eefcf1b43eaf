-- Laws that the proofs cite: what is replied, and how long a recipe is.
pub mod Replies
pub mod Longest
