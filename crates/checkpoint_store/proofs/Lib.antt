pub mod Stored
pub mod Setting
pub mod Pairs
pub mod Rising
