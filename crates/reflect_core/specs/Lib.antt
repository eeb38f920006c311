pub mod Along
pub mod Pumps
