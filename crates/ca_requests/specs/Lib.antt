pub mod Meaning
pub mod Requests
pub mod Calls
pub mod Forms
pub mod Layout
pub mod Lines
