pub mod RetiredLemmas
pub mod LineLemmas
pub mod SeatLemmas
pub mod ForwardLemmas
pub mod ServingLemmas
pub mod JudgedLemmas
