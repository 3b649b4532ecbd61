pub mod Confining
pub mod Guarding
pub mod Ranges
pub mod Settling
pub mod Tearing
