pub mod Index
pub mod Same
pub mod Lasts
pub mod ServerLines
pub mod ValueRefusals
pub mod LineKinds
pub mod ClientRefusals
pub mod EventRefusals
pub mod Eaches
mod Ranges
pub mod Tellings
