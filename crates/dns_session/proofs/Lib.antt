pub mod PieceLemmas
pub mod ManyLemmas
pub mod ByteWords
pub mod PlaceLemmas
pub mod WordLengths
pub mod SpelledLaws
pub mod ReadLaws
pub mod WordLines
