pub mod Wires
pub mod StreamLemmas
pub mod Parts
