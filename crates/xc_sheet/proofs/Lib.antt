pub mod EndPlaces
pub mod EndReadings
pub mod EndTexts
pub mod EndWithin
pub mod LineLaws
pub mod PrintedLaws
pub mod Readings
pub mod Laws
