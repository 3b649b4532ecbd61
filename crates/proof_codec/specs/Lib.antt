pub mod Claims
pub mod Proofs
pub mod Reading
