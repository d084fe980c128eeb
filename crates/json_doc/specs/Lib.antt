pub mod Tree
pub mod Reading
pub mod View
pub mod System
pub mod inner
