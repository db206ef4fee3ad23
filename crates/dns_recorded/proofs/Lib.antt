pub mod PlaceLemmas
pub mod ReplyLemmas
pub mod ServedLemmas
