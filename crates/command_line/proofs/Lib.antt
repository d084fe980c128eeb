pub mod CommandLines
pub mod Loads
pub mod OneCommand
pub mod Reading
