pub mod Calls
pub mod Entries
pub mod Examples
pub mod Finals
pub mod Journals
pub mod Remains
pub mod Laws
