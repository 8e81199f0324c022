pub mod Tails
pub mod JobLines
pub mod KeptLines
pub mod ShownTotals
