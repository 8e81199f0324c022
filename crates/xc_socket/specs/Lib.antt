pub mod Checks
pub mod Making
pub mod Receiving
