pub mod Doing
pub mod Free
pub mod Ends
pub mod Handled
pub mod Fronted
pub mod Servings
pub mod Sizes
pub mod Answerings
