pub mod Added
pub mod Index
pub mod Trail
