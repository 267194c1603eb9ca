pub mod Bounds
mod Stages
pub mod Soundness
pub mod Reading
pub mod Packing
pub mod Example
pub mod Front
