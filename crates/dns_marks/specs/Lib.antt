pub mod Misfits
pub mod Dnskeys
pub mod Tested
pub mod KeySignatures
pub mod SignatureKeys
pub mod SetMarks
pub mod KeyMarks
pub mod ZoneVerdicts
