-- Laws that several proofs cite, here and in the crates above.
pub mod Rings
pub mod Rooms
pub mod Makings
pub mod Meanings
pub mod Faults
pub mod Turning
