pub mod Blank
pub mod Cost
pub mod Found
pub mod Key
pub mod Kept
pub mod Notes
pub mod Several
