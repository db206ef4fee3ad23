-- Definitions of what a text of sightings says, of its grammar, and of what is written of it.
pub mod RollValue
pub mod RollLines
pub mod RollGrammar
pub mod TrustedText
pub mod RollLaws
