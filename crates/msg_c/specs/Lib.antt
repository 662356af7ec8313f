pub mod Answers
pub mod Handles
pub mod Interned
pub mod Notes
pub mod RuntimeOwned
pub mod SenderOwned
pub mod Shown
pub mod TextsOwned
