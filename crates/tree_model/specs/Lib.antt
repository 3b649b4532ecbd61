pub mod Tree
pub mod Path
pub mod Extension
pub mod Clash
pub mod Halves
pub mod Peaks
pub mod RootFrom
pub mod TreeClash
