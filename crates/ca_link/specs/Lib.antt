pub mod Link
pub mod Calls
pub mod Passing
pub mod Steps
pub mod Exits
