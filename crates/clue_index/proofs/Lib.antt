pub mod CarryLaws
pub mod IndexLaws
pub mod OrderLaws
pub mod StateLaws
pub mod TableLaws
pub mod TrailLaws
