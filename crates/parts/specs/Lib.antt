pub mod Recipes
pub mod Parts
