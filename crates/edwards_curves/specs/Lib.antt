pub mod Ed25519
pub mod Numbers
pub mod Points
