pub mod FeedLemmas
pub mod HasherLemmas
pub mod ListLemmas
pub mod PairLemmas
