pub mod Register
pub mod Varints
pub mod Frames
pub mod Blocks
pub mod Payloads
