pub mod Fitting
pub mod Tables
pub mod Places
pub mod Positions
pub mod Telling
pub mod Explaining
pub mod Judging
pub mod Walks
