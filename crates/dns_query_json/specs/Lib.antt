-- Definitions of JSON texts, and of that of an answer.
pub mod Json
pub mod AnswerJson
