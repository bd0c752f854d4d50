pub mod Handling
pub mod Losing
pub mod Removing
pub mod Parting
pub mod Answering
pub mod Coming
pub mod Effects
