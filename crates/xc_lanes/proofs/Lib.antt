pub mod BitRuns
pub mod Lanes
pub mod Laws
