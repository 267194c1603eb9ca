pub mod Lines
pub mod Text
pub mod Writing
pub mod Places
pub mod Steps
