pub mod At
pub mod Sorted
pub mod Filters
pub mod States
