pub mod Decided
pub mod Gathered
pub mod Scenes
