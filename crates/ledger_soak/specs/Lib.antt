pub mod Tasks
pub mod Lines
pub mod Turns
pub mod Soaks
pub mod Posts
pub mod Auditing
pub mod Runs
pub mod Soaking
