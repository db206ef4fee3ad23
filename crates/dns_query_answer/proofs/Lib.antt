pub mod PushLemmas
pub mod StatusLemmas
pub mod SaidLemmas
pub mod AncestorLemmas
pub mod MatchLemmas
