pub mod Answered
pub mod Judged
pub mod Numbers
pub mod Own
pub mod Served
pub mod Spent
pub mod Turns
pub mod inner
