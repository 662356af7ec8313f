pub mod Parts
pub mod Serial
pub mod Serving
pub mod Text
pub mod Written
