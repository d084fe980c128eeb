pub mod Function
pub mod Words
pub mod Verdict
pub mod Line
pub mod Run
pub mod inner
