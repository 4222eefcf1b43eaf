pub mod Layout
pub mod Reading
pub mod Rules
pub mod Fits
