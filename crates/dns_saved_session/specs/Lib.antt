-- Definitions of what is known of a lookup, and of its session.
pub mod Saved
pub mod Coming
pub mod SavedText
