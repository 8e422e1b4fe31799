pub mod Fields
pub mod Payloads
pub mod Framing
pub mod Encoding
pub mod Branches
pub mod Reading
pub mod Writing
