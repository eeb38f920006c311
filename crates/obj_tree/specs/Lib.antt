pub mod Maps
pub mod Pages
pub mod Places
pub mod Prefixes
pub mod Laws
pub mod Edges
pub mod Words
pub mod Marks
