pub mod Rows
pub mod Wordings
pub mod Words
pub mod Scenes
