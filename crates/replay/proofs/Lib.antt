pub mod Printing
pub mod Replaying
