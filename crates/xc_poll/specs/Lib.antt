pub mod Tasks
pub mod Polls
pub mod Crews
pub mod Askings
pub mod Alls
