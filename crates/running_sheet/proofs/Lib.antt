pub mod Lines
pub mod Measures
pub mod Faults
pub mod Laws
pub mod Example
