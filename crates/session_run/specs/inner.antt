-- Definitions that only proofs and the crate's own functions need.
pub mod Held
pub mod Listed
pub mod Putting
