-- What contracts of this crate name, by subject.
pub mod LetterCase
pub mod Requests
pub mod NoRecords
pub mod Errors
pub mod ErrorKinds
pub mod Responses
pub mod Glue
pub mod QueryKeys
pub mod AnswerIndex
pub mod Replies
pub mod Conversions
pub mod Causes
pub mod Handles
pub mod Walks
pub mod Notices
pub mod Protocols
