pub mod Buckets
pub mod Indexed
pub mod Kept
pub mod Methods
pub mod Reserved
pub mod RowList
