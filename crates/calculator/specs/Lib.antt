pub mod Calculator
pub mod Written
pub mod Promises
