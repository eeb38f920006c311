pub mod Options
pub mod Tokens
pub mod Asking
pub mod Pages
pub mod Laws
pub mod Seen
