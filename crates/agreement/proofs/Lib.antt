-- Running the recipe of a space replies what the space replies; so RecipeServes, and what it says of words that were written.
pub mod Spaces
pub mod Demand
pub mod Written
