pub mod Counts
pub mod Locked
