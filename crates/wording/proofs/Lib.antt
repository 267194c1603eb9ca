pub mod Sentences
pub mod Places
pub mod Worded
pub mod SceneLines
pub mod Example
