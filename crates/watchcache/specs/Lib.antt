pub mod Options
pub mod Words
pub mod Texts
pub mod Run
pub mod Lists
