pub mod Sets
pub mod Reading
pub mod Steps
pub mod Carries
pub mod Outcomes
pub mod Keeping
pub mod Lives
