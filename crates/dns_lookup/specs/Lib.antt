-- What a lookup promises: its call, its sends, its answer, its causes and its cache.
pub mod Answering
pub mod Calls
pub mod Caching
pub mod Causes
pub mod Completing
pub mod Driving
pub mod Fronts
pub mod Limiting
pub mod LookupAnswers
pub mod LookupParts
pub mod Making
pub mod Sending
pub mod Sends
