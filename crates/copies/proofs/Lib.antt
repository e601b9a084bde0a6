pub mod CopyLaws
pub mod OutputLaws
pub mod OneOutcome
