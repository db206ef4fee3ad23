pub mod CallLemmas
pub mod MadeLemmas
pub mod StepLemmas
pub mod StreamLemmas
