pub mod Texts
pub mod Digits
pub mod Puts
pub mod Refused
