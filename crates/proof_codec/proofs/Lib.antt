pub mod Parts
pub mod Wholes
pub mod Breaks
pub mod Pieces
