pub mod Spans
pub mod Stack
pub mod Places
pub mod NameKeys
pub mod NsecParts
pub mod Steps
pub mod HashParts
