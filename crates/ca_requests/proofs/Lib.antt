pub mod Drained
pub mod Lined
pub mod Meanings
pub mod Orders
pub mod Tables
