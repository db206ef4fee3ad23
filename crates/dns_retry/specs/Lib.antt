-- What contracts of this crate name, by subject.
pub mod Retries
pub mod RetryHandles
pub mod RetrySends
pub mod Telling
