pub mod ChangeLemmas
pub mod ExistLemmas
pub mod FitLemmas
pub mod GrowthLemmas
pub mod LastLemmas
pub mod MapLemmas
pub mod StateLemmas
