pub mod Bytes
pub mod Grammar
pub mod Reading
pub mod Left
pub mod Meaning
