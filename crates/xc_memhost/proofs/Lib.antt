pub mod Bodies
pub mod Calling
pub mod Listed
