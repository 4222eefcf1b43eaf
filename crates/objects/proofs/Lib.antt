-- What the lexer makes of a written object.
pub mod Digits
pub mod Steps
pub mod Written
