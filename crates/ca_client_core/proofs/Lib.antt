pub mod Openings
pub mod Circuits
pub mod Cancelling
pub mod Faults
pub mod Requesting
pub mod Adding
pub mod Putting
pub mod Quoted
mod Queued
mod Connected
mod Outcomes
mod Displays
mod Dispatched
pub mod Placing
pub mod Endings
mod Joining
mod Walked
mod Replied
mod Firsts
pub mod Cleared
pub mod Listing
pub mod Completing
pub mod Finds
pub mod Arriving
pub mod Datagrams
mod Sendings
mod Aside
mod Moments
mod Ahead
mod Marked
mod Passing
mod Begun
mod Prepared
mod Rounds
mod Alone
mod Awaited
mod InPlace
mod Tried
mod Foretold
