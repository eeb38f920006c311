pub mod Reasons
pub mod Failures
pub mod Requests
pub mod Selectors
pub mod Options
pub mod Routes
pub mod Writes
