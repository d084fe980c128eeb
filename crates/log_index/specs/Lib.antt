pub mod Places
pub mod Marks
pub mod Representation
pub mod Index
pub mod inner
