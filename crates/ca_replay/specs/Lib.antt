pub mod Drawing
pub mod Replayed
pub mod Settings
pub mod Steps
