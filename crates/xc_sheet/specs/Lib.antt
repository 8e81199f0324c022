pub mod EndRanges
pub mod Ends
pub mod Lines
pub mod Places
pub mod Printed
pub mod Ranges
pub mod Sheets
