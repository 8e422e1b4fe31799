pub mod Ranges
pub mod Types
pub mod Sound
pub mod Value
pub mod Bags
pub mod ByKinds
pub mod RelByKinds
pub mod FormOf
pub mod CanRules
pub mod Rearranged
pub mod SameRows
pub mod SameDistinct
mod Laid
mod Worked
