pub mod BodyLemmas
pub mod BookmarkLemmas
pub mod LineLemmas
