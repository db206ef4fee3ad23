pub mod WalkLemmas
pub mod ErrorLemmas
pub mod KeyLemmas
pub mod CaseLemmas
pub mod GlueLemmas
pub mod AnswerLemmas
