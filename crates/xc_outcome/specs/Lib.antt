pub mod Due
pub mod Lines
pub mod Outcomes
pub mod Runs
pub mod Said
pub mod Status
