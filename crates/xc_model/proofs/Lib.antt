pub mod CallCounts
pub mod LiveWalks
pub mod MostEntries
pub mod RecordsPlayed
pub mod StartedCalls
pub mod HandedAsks
pub mod Laws
