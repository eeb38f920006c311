pub mod ReplyLemmas
pub mod HexadecimalLemmas
