-- Laws of validation and of accepted pages that several proofs cite, here and in the crates above.
pub mod Sizes
pub mod Accepted
pub mod WellMade
pub mod Bytes
pub mod Alone
pub mod Empty
