-- The laws of a block, and the theorems of the two round trips.
pub mod Check
pub mod ByKind
pub mod Blocks
pub mod Exits
pub mod RoundTrips
pub mod Carried
