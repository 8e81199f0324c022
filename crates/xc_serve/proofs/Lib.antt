pub mod Blocks
pub mod Gained
pub mod Told
pub mod Lines
pub mod Scripted
