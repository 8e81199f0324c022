pub mod Counts
pub mod Memory
pub mod Standard
pub mod Streams
pub mod View
