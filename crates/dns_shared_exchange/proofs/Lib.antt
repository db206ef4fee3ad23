pub mod CallLemmas
pub mod TokenLemmas
