-- What contracts of this crate name, by subject.
pub mod Draws
pub mod Events
pub mod History
pub mod Laws
pub mod Machine
pub mod Messages
pub mod Multiplexers
pub mod Queues
pub mod Runs
pub mod Brought
pub mod Tables
pub mod Views
