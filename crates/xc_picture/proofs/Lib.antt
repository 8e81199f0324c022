pub mod Bars
pub mod EscapeLaws
pub mod Spots
pub mod Texts
pub mod Unread
