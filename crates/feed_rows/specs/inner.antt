-- Definitions that only proofs and the crate's own functions need.
pub mod Index
pub mod Ordered
pub mod Shown
