-- The rule of taking turns.
pub mod Turns
