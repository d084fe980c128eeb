-- Definitions that only proofs and the crate's own functions need.
pub mod Leaves
pub mod Arguments
