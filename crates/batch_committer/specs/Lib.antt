pub mod World
pub mod Steps
pub mod Attending
pub mod Opened
pub mod Committed
pub mod Read
