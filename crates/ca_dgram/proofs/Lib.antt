pub mod Spellings
pub mod Readings
pub mod Searches
pub mod Packings
