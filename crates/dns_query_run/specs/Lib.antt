-- What contracts of this crate name, from what is told of a lookup to a call of the program.
pub mod Told
pub mod Complaints
pub mod Saving
pub mod Answers
pub mod Files
pub mod FixedTexts
pub mod Calls
pub mod Endings
