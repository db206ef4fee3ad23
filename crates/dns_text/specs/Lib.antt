-- Definitions of words: types and classes, numbers and bytes.
pub mod Words
pub mod Digits
pub mod Codes
pub mod Pairs
pub mod Lines
