pub mod Colours
pub mod Evaluating
pub mod Moves
