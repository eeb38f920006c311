pub mod Draws
pub mod Requests
pub mod Heads
pub mod Replies
pub mod Figures
pub mod Loads
pub mod Tallies
