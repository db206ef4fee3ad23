-- Definitions of the questions of a trail, and of their text.
pub mod Questions
pub mod QuestionsText
pub mod Gathering
