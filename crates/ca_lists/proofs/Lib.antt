pub mod Ascents
pub mod Listed
pub mod Members
pub mod Uptos
pub mod Walked
