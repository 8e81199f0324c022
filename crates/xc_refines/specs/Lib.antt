pub mod InFlight
