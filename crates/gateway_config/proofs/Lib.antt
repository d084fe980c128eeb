pub mod Firsts
pub mod Earlier
pub mod Sets
pub mod Sync
pub mod Answered
pub mod Objects
pub mod Bytes
pub mod Items
