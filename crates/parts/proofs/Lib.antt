-- Laws that the proofs cite, here and in the crates above: the words of a recipe's parts, and its steps level by level.
pub mod Words
pub mod Programs
pub mod Steps
