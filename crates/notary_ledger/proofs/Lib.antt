pub mod SlotLaws
pub mod ListLaws
pub mod LocalLaws
pub mod OpenLaws
pub mod UniqueLaws
pub mod SureLaws
