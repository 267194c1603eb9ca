pub mod Cells
pub mod Running
pub mod Decisions
pub mod Laws
pub mod Example
