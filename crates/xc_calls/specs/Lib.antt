pub mod Calls
pub mod Deferred
pub mod Passing
pub mod Sides
pub mod Taking
