pub mod AnchorLemmas
pub mod ServerLemmas
