pub mod Command
pub mod Limits
pub mod Mask
pub mod Name
pub mod Place
pub mod Refusal
pub mod Status
pub mod Waits
