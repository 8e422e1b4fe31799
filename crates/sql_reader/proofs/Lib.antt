pub mod Singles
pub mod Signatures
pub mod Waits
pub mod Moves
pub mod Built
pub mod Known
pub mod FirstFollow
pub mod OneLog
