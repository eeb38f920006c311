pub mod Feeds
pub mod Sections
pub mod Settings
