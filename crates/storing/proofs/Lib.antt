pub mod RowLaws
pub mod InsideLaws
pub mod ListLaws
pub mod FewLaws
pub mod WriteLaws
pub mod Demands
pub mod OneOutcome
