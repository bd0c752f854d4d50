mod BlockParts
mod Crosses
pub mod Places
pub mod Runs
mod Slots
pub mod Stale
mod Stored
mod Vacant
mod Ahead
mod Filling
