pub mod Sources
pub mod Items
pub mod Worlds
pub mod Changes
pub mod Places
pub mod Views
