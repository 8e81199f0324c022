pub mod Overlays
pub mod Saved
pub mod Laws
