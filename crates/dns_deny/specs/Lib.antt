pub mod ThenLines
pub mod DenyGrammar
pub mod DenialLines
pub mod DenyLaws
