pub mod CountLemmas
pub mod LookupLemmas
pub mod AnswerLemmas
pub mod RequestLemmas
pub mod DatagramLemmas
pub mod ConnectionLemmas
