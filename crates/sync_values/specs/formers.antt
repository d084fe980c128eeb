pub mod shared
pub mod by_name
