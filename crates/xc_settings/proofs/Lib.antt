pub mod Bounds
pub mod Choices
pub mod JobLists
pub mod Numerals
pub mod Parsed
