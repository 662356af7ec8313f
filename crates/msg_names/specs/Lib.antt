pub mod ClassRef
pub mod Laws
pub mod Name
pub mod Number
pub mod Numbering
pub mod Texts
pub mod TextsInside
