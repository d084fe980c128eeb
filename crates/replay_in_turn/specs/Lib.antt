pub mod Devices
pub mod Replay
pub mod Script
pub mod Sessions
pub mod inner
