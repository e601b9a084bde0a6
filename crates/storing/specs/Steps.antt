-- Steps of the implementation: contracts inside the libraries cite them, and nobody has to believe them.
pub mod Rows
pub mod Walk
pub mod Stored
