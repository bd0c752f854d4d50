pub mod Messages
pub mod Datagram
pub mod Search
pub mod Packing
