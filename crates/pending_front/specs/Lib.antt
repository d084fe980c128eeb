pub mod ByNumber
pub mod Pending
pub mod Runs
pub mod Storing
