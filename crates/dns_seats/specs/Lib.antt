-- What contracts of this crate name, by subject.
pub mod Serving
pub mod Turns
