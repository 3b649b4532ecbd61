pub mod Dumps
pub mod Checks
pub mod Truth
pub mod Shown
