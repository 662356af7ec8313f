pub mod ArrayLemmas
pub mod BeginLemmas
pub mod KeepLemmas
