pub mod ByteLemmas
pub mod DecimalLemmas
pub mod WordLemmas
