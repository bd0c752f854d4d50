pub mod Stock
pub mod Rule
pub mod Arming
pub mod Filling
pub mod Collecting
pub mod Meeting
pub mod Start
pub mod After
pub mod Outstanding
pub mod Seated
pub mod TakingBack
mod Parting
