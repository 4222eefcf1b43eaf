-- Laws of texts: the tree that their tokens are, and the words that the compiler makes of them.
pub mod Waiting
pub mod Spelled
pub mod Whole
pub mod Compiled
pub mod Open
pub mod Taken
pub mod Zero
