pub mod PlacingLemmas
pub mod DepthLemmas
pub mod ExistLemmas
pub mod CycleLemmas
