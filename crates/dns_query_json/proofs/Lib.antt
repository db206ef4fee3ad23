-- A lemma on lists of values.
pub mod ListLemmas
