pub mod Found
pub mod Units
pub mod Values
pub mod Rising
pub mod Texts
pub mod Kept
pub mod formers
pub mod inner
