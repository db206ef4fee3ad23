-- What contracts of this crate name, by subject: first what is asked and answered, then the handles that do so.
pub mod Checking
pub mod Fallbacks
pub mod Deadlines
pub mod Notes
pub mod Connections
pub mod CheckingHandles
pub mod FallbackHandles
pub mod DeadlineHandles
pub mod NotingHandles
pub mod ConnectingHandles
