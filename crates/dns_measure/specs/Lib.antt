-- Definitions of what the program is asked for.
pub mod Forms
