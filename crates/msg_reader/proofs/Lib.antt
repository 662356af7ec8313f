mod BlankLemmas
mod KeyLemmas
pub mod NoteLemmas
pub mod ReaderLemmas
pub mod SeveralLemmas
mod SpareLemmas
mod StampedLemmas
