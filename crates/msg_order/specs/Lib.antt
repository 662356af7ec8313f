pub mod Superclasses
pub mod Order
pub mod Laws
