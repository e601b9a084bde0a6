-- Steps of the implementation: contracts inside the libraries cite them, and nobody has to believe them.
pub mod Writes
