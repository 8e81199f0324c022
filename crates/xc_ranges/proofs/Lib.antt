pub mod Lengths
pub mod Few
