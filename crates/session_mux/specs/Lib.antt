pub mod Frames
pub mod Muxed
pub mod Sent
