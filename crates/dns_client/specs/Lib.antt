-- What contracts of this crate name, by subject.
pub mod Clients
pub mod MemoParts
pub mod Memos
pub mod Readers
pub mod Responses
pub mod Sends
pub mod ZoneTransfers
