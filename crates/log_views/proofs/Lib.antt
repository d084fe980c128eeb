pub mod Placed
pub mod Looked
pub mod MarksRead
pub mod Stated
pub mod Sorting
pub mod Searched
