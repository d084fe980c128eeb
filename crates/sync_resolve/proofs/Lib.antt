pub mod Earliest
pub mod First
pub mod Closing
pub mod Steps
pub mod Second
pub mod Crossing
