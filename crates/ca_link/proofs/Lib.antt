mod Appending
pub mod Taking
