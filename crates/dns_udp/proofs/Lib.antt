pub mod MetLemmas
pub mod BindingLemmas
mod StreamLemmas
mod PortLemmas
pub mod SocketLemmas
pub mod ListLemmas
pub mod HoldLemmas
pub mod AskLemmas
pub mod OpenLemmas
pub mod WaitLemmas
pub mod JudgeLemmas
pub mod TalkLemmas
