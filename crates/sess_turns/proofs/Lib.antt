pub mod WritingLemmas
pub mod AloneLemmas
pub mod LineLemmas
pub mod TurnLemmas
pub mod AskLemmas
pub mod TurnedLemmas
pub mod BodyLemmas
pub mod StreamLemmas
