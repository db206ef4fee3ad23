pub mod DatagramLemmas
pub mod StreamLemmas
pub mod TrafficLemmas
