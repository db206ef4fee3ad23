-- A validation as a machine of steps, its runs, and what it comes to and leaves to be kept.
pub mod AcceptedChains
pub mod AnswerParts
pub mod Comes
pub mod LastKept
pub mod Left
pub mod Machine
pub mod MadePlaces
pub mod Reached
pub mod Received
pub mod ReceivedParts
pub mod Requests
pub mod Runs
pub mod Steps
pub mod Terms
pub mod ValidationValues
pub mod Validations
pub mod KeptSets
