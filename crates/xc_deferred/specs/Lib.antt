pub mod Queue
pub mod Does
pub mod Puts
pub mod Ended
