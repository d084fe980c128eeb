-- Definitions that only proofs and the crate's own functions need.
pub mod Room
pub mod Owed
pub mod Stamps
pub mod Class
pub mod Ready
pub mod Entries
pub mod Stamped
