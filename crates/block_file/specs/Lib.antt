pub mod Changes
pub mod File
pub mod Head
pub mod FileView
pub mod Blocks
pub mod Places
pub mod Writing
