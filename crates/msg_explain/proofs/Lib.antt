pub mod PlaceLemmas
pub mod FaultLemmas
pub mod WalkLemmas
pub mod JudgingLemmas
