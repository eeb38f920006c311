pub mod TextLemmas
pub mod NameLemmas
pub mod TokenLemmas
pub mod PageLemmas
