pub mod Followed
pub mod Headline
pub mod Lines
pub mod Parts
