-- What contracts of this crate name.
pub mod Tokens
