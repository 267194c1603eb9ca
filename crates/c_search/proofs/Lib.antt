mod Settling
pub mod Example
