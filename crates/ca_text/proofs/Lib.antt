pub mod Commands
pub mod Ends
pub mod Places
pub mod Waits
