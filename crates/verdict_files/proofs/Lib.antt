pub mod Files
pub mod Decisions
pub mod Example
