pub mod Addresses
pub mod Sent
pub mod First
pub mod Fan
