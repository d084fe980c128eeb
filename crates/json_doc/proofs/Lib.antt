pub mod NodeTrees
pub mod ValueTrees
