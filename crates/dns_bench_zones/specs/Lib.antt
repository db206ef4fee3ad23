-- Definitions of nested zones, and of what is counted of one lookup below them.
pub mod NestedZones
pub mod Benches
pub mod Parts
