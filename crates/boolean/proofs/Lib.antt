pub mod Verdicts
pub mod Flips
pub mod Joining
pub mod Cells
pub mod Extent
pub mod Example
