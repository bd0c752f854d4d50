mod Folding
mod Fresh
mod Goings
pub mod Stops
