pub mod Awaited
pub mod Filling
pub mod Draining
pub mod Calls
pub mod Replies
pub mod Stepping
pub mod Turns
pub mod Turning
