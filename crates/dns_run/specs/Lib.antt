-- Definitions of what a run does, by its words, its input and its output.
pub mod Forms
pub mod Outcomes
pub mod Endings
pub mod Runs
pub mod Ends
pub mod Completing
pub mod Tasks
pub mod Benches
pub mod Asks
pub mod Calls
pub mod Explaining
pub mod ExplainingOver
