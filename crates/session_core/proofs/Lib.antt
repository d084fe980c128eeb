pub mod Answered
pub mod Awaiting
pub mod Chosen
pub mod Conducts
pub mod Feeding
pub mod Refusing
pub mod Replying
