mod Arrivals
mod Beginnings
mod CallSteps
mod Copies
mod Faulted
pub mod Givens
mod Hashed
mod Indexes
mod Openings
mod Overs
pub mod Placings
mod Presence
mod Steps
mod Waiters
mod Withdrawals
