mod RowLaws
mod FoldLaws
mod HeaderLaws
mod RefusalLaws
mod TreeLaws
mod NotedLaws
mod ProofLaws
mod PartLaws
mod ExtendLaws
mod AcceptLaws
mod SpellLaws
pub mod WideLaws
pub mod WrittenLaws
