-- Definitions for sources, sinks and what is told of them.
pub mod Calls
pub mod Reading
pub mod Pieces
pub mod Writing
pub mod Leaving
pub mod Standard
pub mod Runs
