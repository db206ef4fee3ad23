-- Definitions of the status and the text of an answer.
pub mod Status
pub mod SentenceWords
pub mod Places
pub mod PlaceValues
pub mod SignatureWords
pub mod CauseWords
pub mod Following
pub mod DigestWords
pub mod Reasons
pub mod Wildcards
pub mod NsecFaults
pub mod Nsec3Faults
pub mod DenialWords
pub mod AnswerText
