pub mod State
pub mod Faults
pub mod Spans
pub mod Pipes
pub mod Pairs
pub mod Machine
pub mod Telling
