pub mod Remedies
pub mod Waits
pub mod Places
