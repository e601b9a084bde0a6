pub mod TestLaws
pub mod PlacedLaws
pub mod SlotLaws
pub mod TextLaws
pub mod WalkLaws
pub mod SectionLaws
pub mod WholeLaws
pub mod OneOutcome
