pub mod Ends
pub mod Handed
pub mod Lasts
pub mod Lines
pub mod Placing
