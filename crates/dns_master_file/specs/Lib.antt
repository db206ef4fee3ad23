-- Definitions of what lines of master files say.
pub mod Front
pub mod Codes
pub mod Meanings
pub mod Fields
pub mod Reading
pub mod Laws
