pub mod Drawn
pub mod Releases
pub mod Stores
