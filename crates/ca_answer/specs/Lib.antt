pub mod Answering
pub mod Engines
pub mod Fronting
pub mod Serving
