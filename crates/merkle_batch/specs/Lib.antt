pub mod Rows
pub mod Over
pub mod Stretches
