-- What contracts of this crate name, by subject.
pub mod Calls
pub mod Entries
pub mod Histories
pub mod Laws
pub mod Limits
pub mod Replays
