pub mod Blocks
pub mod RoundTrips
pub mod Inks
