pub mod Inputs
pub mod Loading
pub mod Replays
