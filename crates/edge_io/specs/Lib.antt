pub mod Told
pub mod Counts
pub mod Net
pub mod Memory
pub mod Held
pub mod Sent
