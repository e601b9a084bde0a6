pub mod PutLaws
pub mod ApartLaws
pub mod TableLaws
pub mod OldLaws
pub mod OneOutcome
