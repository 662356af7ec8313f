pub mod Word
pub mod Capacity
pub mod Probing
pub mod Array
