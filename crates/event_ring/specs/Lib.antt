pub mod Events
pub mod Rings
pub mod Laws
