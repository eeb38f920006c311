pub mod Members
pub mod Objects
pub mod Replies
pub mod Plain
pub mod Orderly
pub mod Laws
