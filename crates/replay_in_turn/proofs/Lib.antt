pub mod Alone
pub mod Devices
pub mod FinalLog
pub mod Lines
pub mod Resumes
pub mod Runs
pub mod Served
