pub mod AnswerLemmas
pub mod PageLemmas
pub mod ListLemmas
pub mod FollowLemmas
pub mod LineLemmas
pub mod HearLemmas
pub mod LawLemmas
pub mod RelistLemmas
