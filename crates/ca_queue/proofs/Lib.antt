pub mod Additions
pub mod Circuits
mod Counts
mod Crowds
pub mod Entries
pub mod Images
pub mod Keys
mod Laid
pub mod Order
pub mod Subscribers
mod Rounds
pub mod Runs
pub mod Soundness
