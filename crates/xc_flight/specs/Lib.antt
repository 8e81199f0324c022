pub mod Active
pub mod Flight
pub mod State
pub mod Turns
