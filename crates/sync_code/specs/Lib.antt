pub mod Code
pub mod Steps
pub mod Made
pub mod inner
