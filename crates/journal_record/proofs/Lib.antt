pub mod Spelling
pub mod TagLaws
pub mod ReadingSteps
pub mod Versions
pub mod ReadingLaws
pub mod WholeLaws
pub mod ItemLaws
pub mod Near
