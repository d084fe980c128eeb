pub mod Texts
pub mod FaultLemmas
pub mod Scripts
pub mod Either
pub mod KindLines
