pub mod PieceLemmas
pub mod DialLemmas
pub mod CallLemmas
