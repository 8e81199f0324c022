pub mod Replay
pub mod Blocks
pub mod Traced
pub mod Taking
