pub mod Batches
pub mod Queues
pub mod Index
pub mod Places
