-- Definitions that only proofs and the crate's own functions need.
pub mod MoreStates
pub mod Changes
pub mod Givers
pub mod Gifts
