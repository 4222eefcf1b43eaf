-- The laws that hold for every layout.
pub mod Held
pub mod Fields
pub mod Puts
