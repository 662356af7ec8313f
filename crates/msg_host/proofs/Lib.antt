pub mod ChangingLemmas
pub mod ConfigLemmas
pub mod ContentsLemmas
pub mod CrossingLemmas
pub mod ListingLemmas
pub mod LookupLemmas
pub mod WayBackLemmas
