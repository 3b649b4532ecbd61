mod Many
mod Loops
mod Pieces
pub mod Wholes
mod Breaks
