pub mod Found
pub mod StepLaws
pub mod OutlineLaws
pub mod WholeLaws
pub mod OneOutcome
