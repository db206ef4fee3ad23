pub mod ListLemmas
pub mod CalendarLemmas
