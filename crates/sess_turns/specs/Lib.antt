pub mod Terms
pub mod Turns
pub mod Streams
pub mod Laws
pub mod Steps
