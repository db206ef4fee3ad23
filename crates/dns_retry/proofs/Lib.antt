pub mod PollLemmas
pub mod RetryLemmas
pub mod TellingLemmas
