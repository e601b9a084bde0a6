pub mod CountLaws
pub mod SizeLaws
pub mod WholeLaws
pub mod MeasureLaws
pub mod OneOutcome
