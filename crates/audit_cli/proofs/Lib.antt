pub mod TextLaws
pub mod SessionLaws
pub mod TopLaws
pub mod DumpLaws
pub mod RuleLaws
pub mod CheckLaws
pub mod JudgedLines
pub mod YesLaws
pub mod LineLaws
pub mod SoundLaws
pub mod EndLaws
mod ShownLaws
mod PlainWords
