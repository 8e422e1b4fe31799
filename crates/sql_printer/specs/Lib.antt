pub mod Said
pub mod Spelled
pub mod Names
pub mod Lists
pub mod Exprs
pub mod Queries
pub mod Bare
pub mod Laws
