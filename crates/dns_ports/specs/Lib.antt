-- What contracts of this crate name, by subject.
pub mod Lists
pub mod Ports
