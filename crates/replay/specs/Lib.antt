pub mod Replay
pub mod Runs
