pub mod Relations
pub mod From
pub mod Items
pub mod Selects
pub mod Queries
pub mod Assigning
pub mod Statements
