-- What contracts of this crate name, by subject.
pub mod Responding
pub mod Authentic
