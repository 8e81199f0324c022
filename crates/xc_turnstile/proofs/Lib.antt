pub mod Fronts
pub mod Entering
pub mod Sharing
pub mod Passes
pub mod Pairs
pub mod Laws
