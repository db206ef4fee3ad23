pub mod Joining
pub mod SetKeys
pub mod SetPlaces
pub mod Outcome
pub mod Expansions
