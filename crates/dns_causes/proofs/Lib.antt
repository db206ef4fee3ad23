pub mod LedLemmas
pub mod MarkedLemmas
pub mod PlaceLemmas
pub mod StepLemmas
pub mod TextLemmas
