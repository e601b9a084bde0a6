pub mod Code
pub mod Profiles
pub mod Records
pub mod Stores
pub mod Paths
pub mod Shelves
pub mod Salvages
