pub mod FeedLoads
pub mod FeedText
pub mod PlainWords
pub mod Run
