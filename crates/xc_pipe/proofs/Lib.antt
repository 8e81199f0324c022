pub mod Made
pub mod Takings
pub mod ReadSteps
pub mod ReadCalls
pub mod TakeRuns
pub mod KeptData
pub mod Behind
pub mod Laws
