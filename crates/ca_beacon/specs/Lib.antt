pub mod Clock
pub mod Table
