pub mod ItemsByKinds
pub mod OneMore
pub mod Rules
pub mod SetsByKinds
mod Worked
