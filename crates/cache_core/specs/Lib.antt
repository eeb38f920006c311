pub mod Caches
pub mod Feeding
pub mod Steps
