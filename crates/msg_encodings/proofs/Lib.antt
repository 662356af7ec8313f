pub mod Shorter
pub mod Fields
