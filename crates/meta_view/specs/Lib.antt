pub mod Partial
pub mod Accept
pub mod Lines
