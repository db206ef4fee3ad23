pub mod LineReads
pub mod SavedLaw
