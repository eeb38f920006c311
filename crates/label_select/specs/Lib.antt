pub mod Pieces
pub mod Grammar
pub mod Reading
pub mod Left
pub mod Values
pub mod Meaning
