pub mod Numbers
pub mod Characters
pub mod Parts
pub mod Steps
