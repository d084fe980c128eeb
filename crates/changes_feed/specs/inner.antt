-- Definitions that only proofs and the crate's own functions need.
pub mod Segment
pub mod Amid
pub mod Bounds
