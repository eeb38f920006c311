pub mod HandshakeLemmas
pub mod MessageLemmas
pub mod ClientLemmas
