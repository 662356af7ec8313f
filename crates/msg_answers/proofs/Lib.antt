pub mod CrossingLemmas
pub mod SerialLemmas
pub mod ServingLemmas
pub mod GatherLemmas
pub mod AnsweredLemmas
pub mod PieceLemmas
pub mod PartLemmas
pub mod WrittenLemmas
