pub mod Headline
pub mod Lines
pub mod Options
pub mod Parts
