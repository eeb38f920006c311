pub mod Lines
pub mod Headers
pub mod Revisions
pub mod Reading
pub mod Asking
pub mod Records
pub mod Between
pub mod Laws
