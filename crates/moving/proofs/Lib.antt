pub mod PieceLaws
pub mod FlatLaws
pub mod CallLaws
pub mod OneOutcome
