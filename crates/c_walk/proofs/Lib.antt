mod Naming
pub mod Laws
pub mod Example
