pub mod Places
pub mod Lookup
pub mod Texts
pub mod Asks
pub mod Outcomes
