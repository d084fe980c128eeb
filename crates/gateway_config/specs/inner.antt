-- Definitions that only proofs and the crate's own functions need.
pub mod Seen
pub mod Objects
pub mod Programs
