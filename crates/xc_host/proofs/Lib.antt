pub mod Places
pub mod Writes
pub mod Called
pub mod PipeSteps
pub mod DataKept
pub mod Laws
