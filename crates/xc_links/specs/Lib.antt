pub mod Lines
pub mod Links
pub mod MemLinks
pub mod Tcp
pub mod Wires
