pub mod RememberedLemmas
pub mod InTurnLemmas
