-- What contracts of this crate name, by subject.
pub mod FirstAnswers
pub mod Receivers
pub mod RequestQueues
pub mod Streams
