pub mod TestLaws
pub mod MakingLaws
pub mod OneOutcome
