pub mod History
pub mod Views
pub mod Seats
pub mod Outstanding
pub mod Words
