pub mod SpaceWrites
pub mod PageWrites
