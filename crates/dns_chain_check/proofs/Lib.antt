pub mod EndLemmas
pub mod FittingLemmas
pub mod Members
pub mod Steps
pub mod MoreTrust
pub mod Laws
pub mod Fitting
pub mod TrustLemmas
