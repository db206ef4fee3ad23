pub mod AuthenticLemmas
pub mod RespondLemmas
