pub mod BesideLemmas
pub mod ChangingLemmas
pub mod ExplanationLemmas
pub mod ItemLemmas
pub mod KeptLemmas
pub mod MovingLemmas
pub mod NotedLemmas
pub mod TextLemmas
