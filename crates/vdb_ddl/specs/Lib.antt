pub mod Symbols
pub mod Table
pub mod Actions
pub mod Waiting
pub mod Build
pub mod Items
pub mod Laws
pub mod Steps
