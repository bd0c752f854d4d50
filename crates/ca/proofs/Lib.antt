pub mod AnswerReading
pub mod Asking
pub mod Escaping
pub mod RepeaterReading
pub mod Repeatings
pub mod ReplayReading
pub mod Replayings
