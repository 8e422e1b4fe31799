pub mod ByKinds
pub mod OneMore
pub mod Rules
