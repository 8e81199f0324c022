mod Bare
mod Clients
mod Few
mod Led
mod Forgotten
mod Places
mod Stepping
mod Texts
mod TrueEnds
mod Truths
mod Verdicts
pub mod Fronts
pub mod Laws
