pub mod CrossingLemmas
pub mod RecallingLemmas
