pub mod Rules
pub mod Wide
pub mod Fields
pub mod Entries
pub mod Loop
pub mod Branches
