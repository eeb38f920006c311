pub mod Numbers
pub mod MergeLemmas
pub mod IndexLemmas
