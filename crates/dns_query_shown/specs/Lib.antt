-- Definitions of what is written beside an answer.
pub mod ChainTrees
pub mod Asks
