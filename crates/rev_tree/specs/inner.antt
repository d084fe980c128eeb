-- Definitions that only proofs and the crate's own functions need.
pub mod Layers
pub mod Parts
pub mod Search
