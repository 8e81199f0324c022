mod Endings
mod Finishing
mod Grown
