-- What contracts of this crate name.
pub mod Books
pub mod Calls
pub mod Holders
pub mod Rounds
pub mod Sends
pub mod Upstreams
