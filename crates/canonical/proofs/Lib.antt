pub mod LayoutLaws
pub mod SlotLaws
pub mod FitsLaws
pub mod OneOutcome
