pub mod Numbers
pub mod Nearest
pub mod Bytes
pub mod Values
pub mod Sizes
pub mod Loops
pub mod Refusals
