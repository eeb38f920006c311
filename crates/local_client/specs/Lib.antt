pub mod Caches
pub mod CachedLogs
