pub mod Quotes
pub mod Writing
