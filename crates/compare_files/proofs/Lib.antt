mod Decisions
pub mod Laws
pub mod Example
