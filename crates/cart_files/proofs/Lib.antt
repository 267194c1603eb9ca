pub mod Lists
pub mod Putting
pub mod Adding
pub mod Sought
pub mod Decisions
pub mod Laws
pub mod Refused
pub mod Example
