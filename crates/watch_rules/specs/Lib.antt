pub mod Starts
pub mod Options
pub mod Bodies
pub mod Laws
