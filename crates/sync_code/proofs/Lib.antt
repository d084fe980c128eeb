pub mod InTurn
pub mod Behind
