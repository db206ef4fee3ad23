-- What contracts of this crate name.
pub mod Backgrounds
pub mod Polls
