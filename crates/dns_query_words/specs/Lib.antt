-- Definitions of what the words of a command line ask for.
pub mod Options
pub mod Arguments
pub mod Reading
pub mod Servers
