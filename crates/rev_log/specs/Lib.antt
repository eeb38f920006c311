pub mod Changes
pub mod Logs
pub mod States
pub mod Rows
pub mod Laws
