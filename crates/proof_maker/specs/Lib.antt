pub mod Making
pub mod Parts
pub mod Written
