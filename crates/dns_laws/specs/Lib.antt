-- Definitions of the laws over marks, denials and chains.
pub mod Ground
pub mod Denials
pub mod OwnDenials
pub mod Straight
pub mod Valid
pub mod Complete
