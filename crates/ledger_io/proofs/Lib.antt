pub mod Filling
pub mod LineLemmas
pub mod Pieces
pub mod ReadLemmas
pub mod ReadingLaws
pub mod RunLaws
pub mod WritingLaws
pub mod Seeing
