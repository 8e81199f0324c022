pub mod Judged
pub mod Counts
pub mod Ran
pub mod Left
pub mod Traced
pub mod Stepped
pub mod Judgement
