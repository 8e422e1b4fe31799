pub mod Parts
pub mod Expansion
