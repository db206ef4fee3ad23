-- Definitions of lookups that are over, of what is saved of one, and of when a session is answered as one of them was.
pub mod Heard
pub mod Lookups
pub mod Alike
pub mod Refusals
pub mod InTurn
