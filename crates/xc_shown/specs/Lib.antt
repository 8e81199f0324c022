pub mod Parting
pub mod Shown
