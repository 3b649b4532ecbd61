pub mod Approvals
pub mod Erasures
pub mod Members
