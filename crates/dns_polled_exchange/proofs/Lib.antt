pub mod BackgroundLemmas
pub mod PollLemmas
