-- Definitions of what a session says, and of its grammar.
pub mod SessionValue
pub mod Kinds
pub mod LinePlaces
pub mod Lines
pub mod LineFields
pub mod Grammar
pub mod Spelled
pub mod Stops
