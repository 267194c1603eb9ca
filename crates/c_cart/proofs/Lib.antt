pub mod Loaded
pub mod Example
