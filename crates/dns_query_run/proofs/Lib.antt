pub mod TextLemmas
pub mod SavingLemmas
pub mod ShownLemmas
pub mod SessionLemmas
pub mod SinkLemmas
