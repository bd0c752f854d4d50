pub mod Answers
pub mod ClientTold
pub mod Clients
pub mod Repeaters
pub mod Servers
pub mod Steps
