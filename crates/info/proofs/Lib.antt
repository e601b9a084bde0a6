pub mod InfoLaws
pub mod LengthLaws
pub mod SectionLaws
pub mod PutLaws
pub mod OneOutcome
