-- Definitions that only proofs and the crate's own functions need.
pub mod Nested
pub mod NestedSteps
pub mod Rests
