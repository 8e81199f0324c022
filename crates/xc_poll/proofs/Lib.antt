pub mod Rounds
pub mod Gathers
pub mod Parts
pub mod Sound
pub mod Moves
pub mod Laws
