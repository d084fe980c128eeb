pub mod Putting
pub mod Releasing
pub mod Numbered
pub mod Worlds
pub mod Storing
