pub mod FeedLemmas
pub mod SectionLemmas
