pub mod Listing
pub mod Keeping
pub mod Blocking
pub mod Trying
pub mod Calling
pub mod Laws
