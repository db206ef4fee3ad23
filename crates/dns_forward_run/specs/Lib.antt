-- Definitions of what a run of the forwarder does, by its words, its input and what its seats did.
pub mod Forms
pub mod Lines
pub mod Retired
pub mod Judging
pub mod Forwards
pub mod Keeping
pub mod Openings
pub mod Settings
pub mod Steps
