pub mod Reasons
pub mod Finding
pub mod Runs
