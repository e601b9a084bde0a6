pub mod CandidateLaws
pub mod TextLaws
pub mod PutLaws
pub mod OneOutcome
