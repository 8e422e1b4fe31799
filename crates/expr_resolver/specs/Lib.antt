pub mod Walking
pub mod Types
pub mod Scope
pub mod Operators
pub mod Exprs
pub mod Answers
