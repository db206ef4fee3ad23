-- Definitions of records as lines of a master file.
pub mod Spelling
pub mod TypeTexts
pub mod Calendar
pub mod TypeLists
pub mod Forms
pub mod Presentation
