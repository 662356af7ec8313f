pub mod CrossingLemmas
mod FlushedLemmas
mod OneLemmas
pub mod AloneLemmas
pub mod RestingLemmas
pub mod SparedLemmas
