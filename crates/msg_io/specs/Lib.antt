pub mod Admission
pub mod CommandLine
pub mod Complaint
pub mod Decimal
pub mod Device
pub mod Fault
pub mod Reading
pub mod Writing
