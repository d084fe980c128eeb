pub mod Checksum
pub mod Varint
pub mod Frame
pub mod Props
pub mod Payload
