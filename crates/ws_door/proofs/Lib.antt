pub mod Readings
pub mod Walks
pub mod Chains
pub mod Endings
