pub mod Again
pub mod Frees
