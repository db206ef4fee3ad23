-- What contracts of this crate name, by subject.
pub mod Recording
pub mod RecordedPlaces
