pub mod Calls
pub mod Images
pub mod Lending
pub mod Picking
pub mod Places
pub mod Twin
pub mod Which
