pub mod Listed
pub mod Asked
pub mod Kept
pub mod Stands
pub mod Reads
pub mod Sequences
pub mod inner
