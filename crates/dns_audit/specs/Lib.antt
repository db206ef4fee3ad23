-- Definitions of reports that are read again, of what an audit answers, and of laws of both.
pub mod Written
pub mod Respelled
pub mod AuditText
pub mod ReportValue
pub mod ReportWords
pub mod ReportLines
pub mod LineParts
pub mod ReportGrammar
pub mod RecordForms
pub mod Heard
