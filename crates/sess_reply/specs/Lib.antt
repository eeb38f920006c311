pub mod Replies
pub mod Contents
pub mod Documents
pub mod Sending
pub mod Items
