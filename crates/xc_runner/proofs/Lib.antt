pub mod Events
pub mod Stories
pub mod Steps
pub mod Laws
