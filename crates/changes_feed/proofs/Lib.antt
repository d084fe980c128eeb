mod Viewing
mod Placing
mod Reading
mod Keeping
mod Marking
mod Taking
mod Adding
pub mod Crossing
mod OneOrder
mod Turning
mod Loops
mod Outcomes
mod KeyOrder
mod PastFront
mod UserPeriods
mod Complete
mod Bounded
