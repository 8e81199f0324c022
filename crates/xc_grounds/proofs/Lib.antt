pub mod Fronts
mod Entering
mod Orders
mod Naming
mod Numbering
mod Clashing
pub mod Counted
pub mod Laws
