pub mod Refusals
pub mod Items
pub mod Wrapping
pub mod PlainItems
pub mod Readings
pub mod Selections
mod DocumentPaths
pub mod Paths
pub mod Outcomes
pub mod OneAnswer
