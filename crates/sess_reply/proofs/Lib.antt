pub mod ItemLemmas
pub mod SendLemmas
