mod Digits
pub mod SlotEnds
pub mod Blocks
pub mod Clients
pub mod Handles
pub mod Settling
pub mod Backs
pub mod Opened
pub mod Laws
