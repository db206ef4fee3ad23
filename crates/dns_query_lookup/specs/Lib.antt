-- What contracts of this crate name, from a question with its trust anchors to a server.
pub mod CallValues
pub mod LookedValues
pub mod Lookups
pub mod Asks
pub mod Stacks
pub mod Servers
