pub mod CountedAlike
pub mod LeadingAlike
pub mod Standings
pub mod Laws
