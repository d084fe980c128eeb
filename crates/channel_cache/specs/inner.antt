-- Definitions that only proofs and the crate's own functions need.
pub mod Counting
pub mod Moves
pub mod Read
pub mod Forward
pub mod Asking
pub mod DocumentsRead
