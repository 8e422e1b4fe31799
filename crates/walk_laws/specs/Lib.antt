pub mod Closed
pub mod Typed
pub mod TypedStatements
