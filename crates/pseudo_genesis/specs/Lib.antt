pub mod Bases
pub mod Reading
