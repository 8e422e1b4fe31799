pub mod FirstOf
pub mod Aggregates
pub mod Groups
pub mod Unions
pub mod OfRelations
pub mod OfWorlds
