pub mod Counting
pub mod Answering
pub mod InOrder
pub mod Tallies
pub mod Tables
pub mod Keyed
pub mod Shelves
pub mod Numbering
