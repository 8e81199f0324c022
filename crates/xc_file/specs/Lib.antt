pub mod Reading
pub mod Writing
pub mod Passing
pub mod Naming
pub mod Appending
pub mod Checks
