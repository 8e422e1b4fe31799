pub mod Signatures
pub mod Waits
pub mod Moves
pub mod Built
pub mod Known
pub mod Turns
