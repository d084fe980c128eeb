pub mod Endings
pub mod Loads
pub mod PlainForms
pub mod PlainWords
