pub mod Lines
pub mod Owners
pub mod Records
pub mod Found
