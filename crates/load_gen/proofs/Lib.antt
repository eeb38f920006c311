pub mod DrawLemmas
pub mod HeadLemmas
pub mod ReplyLemmas
pub mod NewLogLemmas
pub mod LoadLemmas
