pub mod AlongLemmas
pub mod PumpLemmas
