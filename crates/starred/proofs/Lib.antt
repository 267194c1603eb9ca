pub mod Starred
pub mod Limits
