pub mod Heads
pub mod Items
pub mod Cookies
pub mod Accept
pub mod Requests
pub mod Upgrades
pub mod Greetings
pub mod inner
