pub mod Letters
pub mod Members
pub mod Reading
pub mod Shapes
pub mod Texts
pub mod Units
