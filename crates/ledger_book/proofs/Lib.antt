mod MemberNumberLaws
pub mod NumberedLaws
pub mod HeaderLaws
pub mod ClueLaws
pub mod MemberLaws
pub mod TimeLaws
pub mod HiderLaws
pub mod StandsLaws
pub mod GenesisLaws
pub mod OpenLaws
mod RootLaws
pub mod JudgeLaws
pub mod ApplyLaws
pub mod FactLaws
mod ReplayLaws
mod AskLaws
mod DropLaws
pub mod BehindLaws
pub mod BaseLaws
mod BlockLaws
mod NamedLaws
mod TellLaws
mod NextLaws
mod PurgeLaws
pub mod ShownLaws
pub mod GroundLaws
pub mod OwnLaws
pub mod SeenLaws
