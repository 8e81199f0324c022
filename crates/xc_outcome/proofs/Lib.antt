pub mod Completeness
pub mod Finishing
pub mod Laws
