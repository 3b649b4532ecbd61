pub mod TurnLaws
pub mod WriteLaws
pub mod StopLaws
pub mod PostLaws
pub mod DrawLaws
pub mod RecordLaws
pub mod TreeLaws
pub mod LeafLaws
pub mod AuditLaws
pub mod ReplyLaws
pub mod StageLaws
pub mod RunLaws
pub mod GlueLaws
mod SameLaws
