pub mod Calls
pub mod Heads
pub mod Held
pub mod Parts
pub mod Ranges
pub mod Replies
pub mod Tails
