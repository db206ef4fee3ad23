mod WrittenLines
mod WrittenWords
mod WrittenForms
mod WrittenParts
mod WrittenLaw
mod OnwardPlaces
mod BehindLaw
mod FromSteps
mod ReadFields
mod ReadWords
mod WordCounts
mod ReadLines
mod ReadTrailLines
mod ReadParts
mod RespelledLaw
pub mod AnswerLemmas
pub mod EachLemmas
pub mod ShortLines
pub mod TimesLemmas
pub mod ChainLemmas
