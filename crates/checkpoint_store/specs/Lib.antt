pub mod SideMaps
pub mod Checkpoints
pub mod Answers
pub mod Stored
