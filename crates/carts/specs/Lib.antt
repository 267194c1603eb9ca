pub mod Layout
pub mod Reading
pub mod Faults
pub mod Loads
pub mod Places
pub mod Steps
