pub mod Next
pub mod Lifted
pub mod PipePuts
pub mod Sends
pub mod Laws
