pub mod Texts
pub mod Pages
pub mod Damages
pub mod Exports
pub mod Gathers
