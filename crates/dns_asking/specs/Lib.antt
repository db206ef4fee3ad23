pub mod Addresses
pub mod Lookups
pub mod Servers
pub mod Causes
