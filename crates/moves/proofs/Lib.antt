pub mod BodyMoves
pub mod StringLaws
pub mod TestLaws
pub mod RecordLaws
pub mod OneOutcome
