pub mod StartLemmas
pub mod VisitLemmas
