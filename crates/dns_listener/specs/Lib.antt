-- What contracts of this crate name, by subject.
pub mod Datagrams
pub mod Listeners
pub mod Listening
pub mod Ports
pub mod Sockets
pub mod Streams
