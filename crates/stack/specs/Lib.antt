pub mod Stack
pub mod Programs
pub mod Operators
pub mod Meaning
pub mod Judging
pub mod Flat
pub mod Memory
pub mod Meant
