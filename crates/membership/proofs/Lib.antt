pub mod Seen
pub mod Judging
mod Turns
pub mod Example
