pub mod Outcomes
pub mod Calls
pub mod Placing
pub mod Nothing
