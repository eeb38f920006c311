pub mod LawLemmas
pub mod CallingLemmas
pub mod PageLemmas
