pub mod Calling
pub mod Owning
