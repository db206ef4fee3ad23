pub mod CountSteps
pub mod MarkLoop
pub mod TimeLemmas
