pub mod Lineages
pub mod Reading
pub mod Accepting
pub mod Judging
pub mod Making
pub mod Runs
