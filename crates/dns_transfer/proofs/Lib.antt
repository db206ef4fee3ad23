pub mod StageLemmas
pub mod StreamLemmas
