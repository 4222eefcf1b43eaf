pub mod Compared
pub mod Demand
