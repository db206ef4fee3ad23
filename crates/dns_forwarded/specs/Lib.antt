-- What contracts of this crate name, by subject.
pub mod Requests
pub mod Replies
pub mod Outcomes
pub mod Laws
pub mod ReadingBack
pub mod Seen
