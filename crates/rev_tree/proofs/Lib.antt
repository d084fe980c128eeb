pub mod Sames
pub mod RevOrder
pub mod Rises
pub mod Joins
pub mod RowSteps
pub mod Grown
pub mod Hanging
pub mod Places
pub mod Kept
pub mod HexDigests
pub mod OfWrites
pub mod Firsts
pub mod Shuffles
pub mod Parents
mod DocumentTrees
pub mod Steps
pub mod TreeSteps
