pub mod Best
pub mod NsecFinds
pub mod Common
pub mod Candidates
pub mod Enclosers
pub mod Counts
