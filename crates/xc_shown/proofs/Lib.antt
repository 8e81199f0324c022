pub mod Counts
pub mod Gathering
pub mod Grammar
pub mod Parting
pub mod Parts
pub mod Laws
