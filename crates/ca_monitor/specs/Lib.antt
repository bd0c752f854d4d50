pub mod ReadRun
pub mod Subscriptions
pub mod Stages
pub mod Calls
pub mod Layout
