pub mod Checks
pub mod Making
pub mod Reading
pub mod Deferring
pub mod Taking
