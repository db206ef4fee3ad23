-- Definitions for names, records and the bytes that they are made of.
pub mod NameEnds
pub mod LabelRuns
pub mod Held
pub mod Words
