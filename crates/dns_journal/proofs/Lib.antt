pub mod ItemLemmas
pub mod StepLemmas
pub mod LawLemmas
pub mod ReplayLemmas
pub mod SendLemmas
pub mod ViewLemmas
