pub mod Fitting
pub mod Sending
pub mod Recording
