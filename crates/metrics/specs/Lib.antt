pub mod Families
pub mod Text
