pub mod Switches
pub mod Feeds
pub mod FeedReads
pub mod inner
