pub mod Settling
mod Answered
mod Comparing
mod Nothing
pub mod Verdicts
pub mod Example
