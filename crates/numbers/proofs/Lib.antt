pub mod Standing
pub mod Stores
pub mod Digits
pub mod Runs
pub mod Canonical
pub mod Backward
pub mod Smalls
pub mod Example
