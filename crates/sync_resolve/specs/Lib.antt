pub mod Faults
pub mod Names
pub mod Expressions
pub mod Statements
pub mod Resolving
pub mod inner
