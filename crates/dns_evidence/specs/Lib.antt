-- Definitions for links, trails, verifiers and lists of accepted signatures.
pub mod Link
pub mod Trail
pub mod Verifiers
pub mod Finding
pub mod ByteSets
pub mod Listing
