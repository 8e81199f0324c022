mod Forever
pub mod Lists
pub mod Objects
pub mod Laws
