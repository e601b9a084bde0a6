pub mod Due
pub mod Wrong
