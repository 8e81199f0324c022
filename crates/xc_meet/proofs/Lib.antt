pub mod Others
pub mod Laws
