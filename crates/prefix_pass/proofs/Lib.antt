mod Telling
pub mod Leading
mod Doubled
pub mod Laws
pub mod Example
