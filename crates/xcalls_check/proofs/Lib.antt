pub mod LineEnds
mod Said
