pub mod Calling
pub mod Holding
pub mod LineLists
pub mod ServedCallers
pub mod Crossing
