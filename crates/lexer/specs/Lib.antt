pub mod Moves
pub mod Scans
