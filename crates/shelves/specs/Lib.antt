pub mod Table
pub mod OldFile
pub mod Steps
