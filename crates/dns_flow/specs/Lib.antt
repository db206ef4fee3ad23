-- Phases of sets and endings, the causes that sets have, and what leads from one to the next.
pub mod Phases
pub mod Leads
pub mod Endings
pub mod Values
pub mod Causes
pub mod CauseRows
