-- Definitions of the lookup that a session asks for, and of what it answers.
pub mod Replies
pub mod Verifying
pub mod Soundness
pub mod Answering
pub mod Adding
pub mod Causes
