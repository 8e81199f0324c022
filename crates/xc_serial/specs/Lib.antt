pub mod Plain
pub mod Undisturbed
