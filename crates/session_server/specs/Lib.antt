pub mod Callers
pub mod Served
pub mod inner
