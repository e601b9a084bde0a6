pub mod TestLaws
pub mod TextLaws
pub mod StructLaws
pub mod VolumeLaws
pub mod NetworkLaws
pub mod AnswerLaws
pub mod OneOutcome
