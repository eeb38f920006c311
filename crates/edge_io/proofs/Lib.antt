pub mod ToldLemmas
pub mod PieceLemmas
pub mod SentLemmas
