pub mod Parts
pub mod NameSteps
pub mod TextLemmas
pub mod ReadSteps
pub mod Copies
mod QueryLemmas
mod RowLemmas
