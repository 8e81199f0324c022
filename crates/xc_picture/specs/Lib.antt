pub mod Arrows
pub mod Drawn
pub mod Elements
pub mod Escapes
pub mod Pictures
pub mod Places
pub mod Scenes
