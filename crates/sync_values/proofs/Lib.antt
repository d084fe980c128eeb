pub mod Sizes
pub mod Rising
