pub mod Wires
mod Walks
pub mod Changes
pub mod Holding
