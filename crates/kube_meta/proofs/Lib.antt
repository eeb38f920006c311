pub mod HashLemmas
pub mod KeyLemmas
pub mod LabelLemmas
pub mod NameLemmas
pub mod ResourceLemmas
pub mod RevisionLemmas
pub mod RowLemmas
pub mod WordLemmas
