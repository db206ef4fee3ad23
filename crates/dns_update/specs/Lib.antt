-- What contracts of this crate name, by subject.
pub mod Notifies
pub mod Parts
pub mod Transfers
pub mod Updates
