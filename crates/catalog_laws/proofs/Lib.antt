pub mod LoweredCaps
pub mod OverConnections
