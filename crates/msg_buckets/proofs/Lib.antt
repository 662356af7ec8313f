pub mod CapacityLemmas
pub mod PlaceLemmas
pub mod WordLemmas
pub mod EndLemmas
pub mod FindLemmas
pub mod FullLemmas
pub mod PutLemmas
pub mod LawLemmas
