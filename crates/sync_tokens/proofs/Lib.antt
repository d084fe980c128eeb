pub mod Spells
pub mod Rises
