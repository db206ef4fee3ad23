pub mod DenyingLemmas
pub mod SaidLemmas
