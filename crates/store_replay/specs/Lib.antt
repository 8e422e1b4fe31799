pub mod Replay
pub mod Walking
pub mod Replaying
pub mod Listing
pub mod OpeningStore
