-- Steps of the implementation: contracts inside the libraries cite them, and nobody has to believe them.
pub mod Firsts
pub mod Lengths
pub mod LinkInfo
pub mod Shape
pub mod Flat
pub mod ItemWalk
pub mod Wrong
pub mod Answers
pub mod Repeats
