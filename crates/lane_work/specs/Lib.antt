pub mod Making
pub mod Orders
pub mod Offering
pub mod Handing
pub mod Working
pub mod Windows
pub mod Fronts
