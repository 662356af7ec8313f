mod HeldLemmas
pub mod RuntimeAsBox
pub mod NoteLemmas
pub mod SenderAsBox
pub mod TextsAsBox
pub mod RuntimeLemmas
