pub mod Layout
pub mod Faults
pub mod Columns
