pub mod Codes
pub mod Finished
pub mod Handing
pub mod Opened
pub mod Told
