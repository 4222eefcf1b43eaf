pub mod Outcomes
pub mod Validation
