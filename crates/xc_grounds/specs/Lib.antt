pub mod Groundless
pub mod Numbered
pub mod Places
