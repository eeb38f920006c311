pub mod FilterLemmas
pub mod OrderLemmas
pub mod PushLemmas
pub mod PlaceLemmas
pub mod FitLemmas
