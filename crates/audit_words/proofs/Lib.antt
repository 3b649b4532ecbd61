pub mod RowLaws
pub mod TakenLaws
pub mod WordLaws
