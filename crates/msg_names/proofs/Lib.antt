pub mod ClassRefLemmas
pub mod CrossingLemmas
pub mod NumberLemmas
pub mod NumberedLemmas
pub mod SetLemmas
pub mod TestLemmas
pub mod TextLemmas
