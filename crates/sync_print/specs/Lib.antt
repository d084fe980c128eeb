pub mod Spelling
pub mod Trees
pub mod Printing
pub mod Laws
