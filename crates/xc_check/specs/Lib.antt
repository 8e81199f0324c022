pub mod Fronts
pub mod Judging
pub mod Refusals
pub mod Stopped
pub mod TrueTexts
pub mod Untold
pub mod Verdicts
