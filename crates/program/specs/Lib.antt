pub mod Parse
pub mod Texts
pub mod Spelling
pub mod Words
pub mod Outers
pub mod Kept
