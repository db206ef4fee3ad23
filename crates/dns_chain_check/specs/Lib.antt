pub mod KeptChains
pub mod LinkJudges
pub mod Indexed
pub mod Prefixes
pub mod MoreTrust
pub mod Fitting
pub mod Trusted
