pub mod ViewLemmas
pub mod ReadingLemmas
pub mod KeyLemmas
pub mod NumberLemmas
