-- Definitions for what each rdata says.
pub mod Windows
pub mod Fields
pub mod Lowered
pub mod Covers
