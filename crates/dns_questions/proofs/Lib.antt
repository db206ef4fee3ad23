pub mod OnceLemmas
pub mod QuestionLemmas
pub mod AskingLemmas
