pub mod Overlay
pub mod Saves
pub mod Views
