pub mod Fronted
pub mod HostCalls
pub mod Refusals
pub mod Laws
