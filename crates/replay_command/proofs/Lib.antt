pub mod Endings
pub mod Loading
pub mod Reading
pub mod Refusing
