pub mod Matches
pub mod Options
