pub mod DecimalLemmas
pub mod WordLaws
pub mod OctetLaws
pub mod PairSteps
pub mod WordShapes
pub mod LineShapes
