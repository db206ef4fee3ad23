-- Definitions of how a message is read and written (RFC 1035, 4.1).
pub mod Reading
pub mod NameAt
pub mod Readable
pub mod KnownNames
pub mod Plain
pub mod Fitting
pub mod RdataAt
pub mod RecordAt
pub mod MessageAt
pub mod WrittenAs
pub mod Lent
