pub mod PortLemmas
pub mod SeatLemmas
pub mod ErrorLemmas
