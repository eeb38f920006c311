pub mod Beginnings
pub mod Passing
pub mod Moves
pub mod Handles
