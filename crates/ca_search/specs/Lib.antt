pub mod Clock
pub mod Searches
pub mod Searcher
