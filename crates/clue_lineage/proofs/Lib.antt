pub mod Spelled
pub mod Passing
pub mod Accepted
pub mod Judged
pub mod Chains
pub mod Made
pub mod Running
pub mod Ruling
