pub mod Views
pub mod Meanings
pub mod Known
pub mod Rules
pub mod Enterings
pub mod Insides
pub mod Pairs
