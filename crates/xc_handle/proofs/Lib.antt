pub mod Crosses
pub mod Single
mod Words
pub mod Laws
