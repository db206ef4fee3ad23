pub mod ShownLemmas
pub mod RoomLemmas
pub mod LawLemmas
pub mod ReadLemmas
pub mod ReadBackLemmas
