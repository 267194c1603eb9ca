pub mod Format
pub mod Rows
pub mod Steps
pub mod Lines
