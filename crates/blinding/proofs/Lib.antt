pub mod TextLaws
pub mod TwinLaws
pub mod BitLaws
pub mod OneOutcome
pub mod Rows
pub mod Demands
