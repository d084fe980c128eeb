-- Definitions that only proofs and the crate's own functions need.
pub mod Passing
pub mod Cuts
