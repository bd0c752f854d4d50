pub use Rattle.ca_arena.specs.Arena
pub mod Wire
pub mod Ids
pub mod Lending
pub mod Table
pub mod Holding
pub mod Walks
