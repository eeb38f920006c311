pub mod LogLemmas
pub mod LaneLemmas
pub mod WaitingLemmas
pub mod SendLemmas
pub mod PieceLemmas
pub mod TellLemmas
pub mod IndexLemmas
pub mod CatchLemmas
pub mod HubLemmas
mod BothLemmas
