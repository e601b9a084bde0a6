pub mod PutLaws
pub mod BlockLaws
pub mod WalkLaws
pub mod Laws
pub mod OneOutcome
