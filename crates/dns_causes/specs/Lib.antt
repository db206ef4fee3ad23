-- Definitions of the causes of a trail, and of their text.
pub mod Causes
pub mod CausesText
pub mod Contexts
pub mod GivenPlaces
pub mod Values
