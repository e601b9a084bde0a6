pub mod Shelf
pub mod Building
pub mod OldForm
pub mod Promises
pub mod Steps
