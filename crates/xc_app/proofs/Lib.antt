mod Finishing
mod Following
