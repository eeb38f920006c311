pub mod SoleLemmas
