pub mod Answering
pub mod Clocks
pub mod Listing
pub mod Notaries
pub mod Opening
pub mod Slots
