pub mod Sieves
pub mod Placing
pub mod Dropping
pub mod Pumps
pub mod Owing
pub mod Changes
pub mod Receivers
pub mod Orders
pub mod Lines
pub mod Channels
pub mod Posts
pub mod Passing
mod Waits
pub mod Imaging
