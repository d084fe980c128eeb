pub mod Places
pub mod Blanks
pub mod Words
pub mod Signs
pub mod Literals
pub mod Scan
pub mod Spellable
pub mod Rising
