pub mod Laws
pub mod OneOutcome
