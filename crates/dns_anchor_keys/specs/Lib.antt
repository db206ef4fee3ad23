-- What contracts of this crate name: zones that are asked, their keys, which of them are trusted, and the whole.
pub mod Zones
pub mod Matching
pub mod Asking
pub mod Trusting
