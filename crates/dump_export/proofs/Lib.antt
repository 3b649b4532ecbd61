pub mod Texts
pub mod Exporting
pub mod Items
pub mod Gathering
pub mod Paging
