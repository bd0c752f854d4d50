pub mod Firsts
pub mod Fans
pub mod Fills
