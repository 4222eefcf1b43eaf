pub mod Numbers
pub mod Spaces
pub mod Pages
pub mod WellMade
pub mod Levels
