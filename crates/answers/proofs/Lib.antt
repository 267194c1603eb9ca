pub mod Telling
pub mod Laws
pub mod Example
