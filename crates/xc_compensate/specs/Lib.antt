pub mod Hindered
pub mod Records
pub mod Restoring
pub mod Turns
pub mod Undoes
