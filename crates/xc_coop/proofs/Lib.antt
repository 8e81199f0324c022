mod Finishing
mod Meeting
