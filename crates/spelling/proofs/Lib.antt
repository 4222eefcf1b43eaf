-- The text of a space reads back as its records.
pub mod Onward
pub mod Entries
pub mod Arrays
pub mod Plain
pub mod Nested
pub mod Indexed
pub mod Inks
pub mod Spaces
pub mod Lengths
pub mod ReadsBack
pub mod Samples
pub mod Records
pub mod Alone
